-- The laws of the definitions, for the layers above to cite.
pub mod ChunkLaws
pub mod PastingLaws
pub mod PlaceLaws
pub mod ReadingLaws
pub mod RecordAgainLaws
pub mod RecordCutLaws
pub mod RecordLaws
pub mod RecordToldLaws
pub mod SameLaws
pub mod StepLaws
pub mod StuckLaws
pub mod TraceLaws
pub mod EncodeLaws
pub mod HeadedLaws
pub mod PenLaws
pub mod PictureLaws
