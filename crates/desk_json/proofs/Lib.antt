mod Floats
mod Lists
mod Parsed
