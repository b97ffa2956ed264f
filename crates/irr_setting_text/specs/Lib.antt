pub mod WrittenLine
pub mod SettingFault
pub mod LineFront
pub mod LineReading
