-- Laws of the line, for the layers above to cite.
pub mod LineLaws
