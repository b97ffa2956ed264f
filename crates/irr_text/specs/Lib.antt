pub mod NumberText
pub mod WaveText
pub mod TripletText
pub mod ReportText
pub mod StarText
