-- What a `-` or `+` at a marker says about the whitespace beside it.

pub data Control : Type 0 where
  Absent : Control
  Remove : Control
  Preserve : Control
