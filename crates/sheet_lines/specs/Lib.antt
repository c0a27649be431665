-- The lines of the printed sheet, and the room that they take.
pub mod Lines
pub mod Room
