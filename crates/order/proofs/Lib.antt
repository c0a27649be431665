-- Laws of graded orders and of columns.
pub mod BuiltIn
pub mod ColumnCount
pub mod DegreeColumns
pub mod ColumnOrder
