mod Arrays
mod Hearing
mod Telling
mod Counting
