-- Laws of what is read and accepted while a sheet is made.
pub mod ReadFilter
pub mod SheetAccepts
