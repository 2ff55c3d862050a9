mod Lists
mod Names
mod Rooms
