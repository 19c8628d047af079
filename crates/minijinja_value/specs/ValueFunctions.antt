-- What the calls of `Value` return.
use Rattle.std.specs.Prelude.{ℕ, nat_eq, Bool, true, false, not, ◌==◌, ◌||◌, ℤ, pos, negsuc, neg_ℤ, ◌+ℤ◌, ◌-ℤ◌, ◌*ℤ◌, length, List, [], ◌∷◌, ◌++◌, fold, Option, Some, None, Result, Ok, Err, if◌then◌else◌}
use Rattle.std.specs.Int.{int_div_euclid, int_rem_euclid, int_pow}
use Rattle.std.specs.List.{starts_with}
use Rattle.minijinja_text.specs.Texts.{Text}
use Rattle.minijinja_value.specs.Values.{Functions}
use Rattle.minijinja_value.specs.Integers.{in_range, is_zero, count_in}
use Rattle.minijinja_value.specs.ValueContents.{Contents, undefined, silent_undefined, none, truth, integer, text, list, tuple, mapping, keywords, no_items, item, Pairs, no_pairs, pair, items_of}
use Rattle.minijinja_value.specs.ValueComparison.{is_undefined, equals, order, has_item, has_key}
use Rattle.minijinja_value.specs.ValueWords.{rendered}
use Rattle.minijinja_value.specs.declared.value.ValueFault.{ValueFault}
use Rattle.minijinja_value.specs.declared.value.ValueFault.TheVariants.{WrongType, DivisionByZero, Overflow}

-- false are both undefined, none, false, 0 and what is empty
abbrev pub is_true : Contents → Bool
is_true undefined = false
is_true silent_undefined = false
is_true none = false
is_true (truth b) = b
is_true (integer z) = not (is_zero z)
is_true (text t) = not (length t == 0)
is_true (list no_items) = false
is_true (list (item x xs)) = true
is_true (tuple no_items) = false
is_true (tuple (item x xs)) = true
is_true (mapping no_pairs) = false
is_true (mapping (pair k v ps)) = true
is_true (keywords no_pairs) = false
is_true (keywords (pair k v ps)) = true

-- an integer from 0 to 2^64 - 1
abbrev pub as_count : Contents → Option ℕ
as_count (integer z) = count_in z
as_count _ = None

-- the pairs with a value for a key: an equal key keeps its place and takes the new value
abbrev pub put : Contents → Contents → Pairs → Pairs
put k v no_pairs = pair k v no_pairs
put k v (pair l w ps) = if equals l k then pair l v ps else pair l w (put k v ps)

-- pairs put one after another
abbrev pub built : List (Contents × Contents) → Pairs
built ps = fold (λ made p. put p.0 p.1 made) no_pairs ps

-- whether the second text stands somewhere in the first
abbrev pub has_text : Text → Text → Bool
has_text [] t = starts_with nat_eq [] t
has_text (b ∷ s) t = starts_with nat_eq (b ∷ s) t || has_text s t

-- a text in a text, an equal item in a list or tuple, an equal key in a map
abbrev pub contains : Contents → Contents → Result Bool ValueFault
contains (text s) (text t) = Ok (has_text s t)
contains (list xs) c = Ok (has_item c xs)
contains (tuple xs) c = Ok (has_item c xs)
contains (mapping ps) c = Ok (has_key c ps)
contains (keywords ps) c = Ok (has_key c ps)
contains _ _ = Err WrongType

-- what a template prints for two values, joined
abbrev pub concat : Contents → Contents → Contents
concat a b = text (rendered a ++ rendered b)

-- the integer that a value is, if it is one
abbrev pub as_integer : Contents → Option ℤ
as_integer (integer z) = Some z
as_integer _ = None

-- an integer that is in range, or that it overflows
abbrev pub or_overflow : Option ℤ → Result Contents ValueFault
or_overflow (Some z) = Ok (integer z)
or_overflow None = Err Overflow

-- an integer as the result of an operator
abbrev pub ranged : ℤ → Result Contents ValueFault
ranged z = or_overflow (in_range z)

-- an operation on an integer, and a fault for any other value
abbrev pub with_integer : (ℤ → Result Contents ValueFault) → Option ℤ → Result Contents ValueFault
with_integer f (Some a) = f a
with_integer f None = Err WrongType

-- the integer with the other sign
abbrev pub neg : Contents → Result Contents ValueFault
neg c = with_integer (λ a. ranged (neg_ℤ a)) (as_integer c)

-- an operation on two integers
abbrev pub on_integers : (ℤ → ℤ → Result Contents ValueFault) → Contents → Contents → Result Contents ValueFault
on_integers f c d = with_integer (λ a. with_integer (f a) (as_integer d)) (as_integer c)

-- the quotient whose remainder is not negative
abbrev pub divided : ℤ → ℤ → Result Contents ValueFault
divided a b = if is_zero b then Err DivisionByZero else ranged (int_div_euclid a b)

-- the remainder that is not negative
abbrev pub left_over : ℤ → ℤ → Result Contents ValueFault
left_over a b = if is_zero b then Err DivisionByZero else Ok (integer (int_rem_euclid a b))

-- powers with an exponent of at least 0; 0 to the 0 is 1
abbrev pub power : ℤ → ℤ → Result Contents ValueFault
power a (pos n) = ranged (int_pow a n)
power a (negsuc n) = Err WrongType

-- all of them
abbrev pub value_functions : Functions Contents ValueFault
value_functions = record {
  none = none;
  silent_undefined = silent_undefined;
  of_bool = truth;
  of_u64 = λ n. integer (pos n);
  of_u128 = λ n. integer (pos n);
  of_str = text;
  list = λ xs. list (items_of xs);
  tuple = λ xs. tuple (items_of xs);
  map = λ ps. mapping (built ps);
  kwargs = λ ps. keywords (built ps);
  is_true = is_true;
  is_undefined = is_undefined;
  as_count = as_count;
  equals = equals;
  order = order;
  concat = concat;
  contains = contains;
  neg = neg;
  add = on_integers (λ a b. ranged (a +ℤ b));
  sub = on_integers (λ a b. ranged (a -ℤ b));
  mul = on_integers (λ a b. ranged (a *ℤ b));
  int_div = on_integers divided;
  rem = on_integers left_over;
  pow = on_integers power;
}
