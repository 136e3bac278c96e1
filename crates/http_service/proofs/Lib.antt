mod Brought
mod Serving
