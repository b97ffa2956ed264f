pub mod DigitRun
