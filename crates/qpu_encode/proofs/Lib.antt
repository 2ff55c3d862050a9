pub mod JoinedFields
pub mod Replace
pub mod RoundTrip
pub mod WordBounds
