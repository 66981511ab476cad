pub mod NameLemmas
pub mod SettingLemmas
pub mod OtherLemmas
