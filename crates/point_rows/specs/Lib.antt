-- The rows of points, and where they stand in the workspace.
pub mod Rows
pub mod Workspace
