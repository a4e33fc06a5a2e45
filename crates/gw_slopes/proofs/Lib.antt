mod Marking
mod Returning
mod Alike
