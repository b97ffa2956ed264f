pub mod ShapePlace
