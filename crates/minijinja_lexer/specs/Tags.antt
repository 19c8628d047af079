-- The kinds of tags that hold tokens.

pub data Tag : Type 0 where
  Variable : Tag
  Block : Tag
  -- a line statement
  Line : Tag
