pub mod SendingLemmas
pub mod TextLemmas
pub mod FanLemmas
pub mod EdgeKeyLemmas
pub mod FormLemmas
pub mod PartLemmas
