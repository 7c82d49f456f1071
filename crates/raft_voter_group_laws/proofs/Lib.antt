mod OneGroup
mod FromGroups
mod OfAccounts
mod ReadBack
