-- What a value type does, seen as functions of what its values hold.
use Rattle.std.specs.Prelude.{ℕ, Bool, List, Option, Result}
use Rattle.std.specs.declared.cmp.Ordering.{Ordering}
use Rattle.minijinja_text.specs.Texts.{Text}

-- the functions of a value type on contents; operators may return a fault
pub record Functions (Contents FaultContents : Type 0) : Type 0 where
  pub none : Contents
  pub silent_undefined : Contents
  pub of_bool : Bool → Contents
  -- integers below 2^64, and below 2^128
  pub of_u64 : ℕ → Contents
  pub of_u128 : ℕ → Contents
  pub of_str : Text → Contents
  pub list : List Contents → Contents
  pub tuple : List Contents → Contents
  -- maps of keys and values, in their order
  pub map : List (Contents × Contents) → Contents
  pub kwargs : List (Contents × Contents) → Contents
  pub is_true : Contents → Bool
  pub is_undefined : Contents → Bool
  -- the integer, if it is from 0 to 2^64 - 1
  pub as_count : Contents → Option ℕ
  pub equals : Contents → Contents → Bool
  pub order : Contents → Contents → Option Ordering
  pub concat : Contents → Contents → Contents
  -- whether the first holds the second
  pub contains : Contents → Contents → Result Bool FaultContents
  pub neg : Contents → Result Contents FaultContents
  pub add : Contents → Contents → Result Contents FaultContents
  pub sub : Contents → Contents → Result Contents FaultContents
  pub mul : Contents → Contents → Result Contents FaultContents
  pub int_div : Contents → Contents → Result Contents FaultContents
  pub rem : Contents → Contents → Result Contents FaultContents
  pub pow : Contents → Contents → Result Contents FaultContents
