mod Finding
mod Seeding
mod Loaded
mod Taking
mod Options
