pub mod DigitLaws
pub mod GpsRuleLaws
