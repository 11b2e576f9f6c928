pub mod PayloadLemmas
pub mod ParsingLemmas
pub mod ValueLemmas
pub mod StreamReadingLemmas
pub mod FieldLemmas
pub mod ItemLemmas
