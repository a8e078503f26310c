mod Members
mod Made
mod Limits
