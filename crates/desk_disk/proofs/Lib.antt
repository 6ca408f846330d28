mod Listings
mod Outcomes
mod Rising
mod Ways
