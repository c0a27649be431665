-- Texts as bytes, and the room that their parts take.
pub mod Room
pub mod Text
