-- What the search for a witness does in the workspace.
pub mod NewRow
