-- Numbers for each degree, and what the search for ranks and witnesses needs of the workspace.
pub mod Cut
pub mod Ready
