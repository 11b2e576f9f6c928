pub mod Drawing
pub mod Raster
pub mod Text
pub mod Svg
pub mod Laws
pub mod Steps
