mod TextLemmas
mod ListingLemmas
