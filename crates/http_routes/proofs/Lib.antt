mod Inserting
mod Numbers
mod Segments
