-- The laws of packed pixels and of words, for the layers above to cite.
pub mod PackedLaws
pub mod WordsLaws
