-- Tokens and words, and what they mean to the grammar.
use Rattle.std.specs.Prelude.{Bool, true, false, ◌||◌, not, ◌==◌, if◌then◌else◌, Option, Some, None, is_some, codes}
use Rattle.std.specs.Str.{bytes_eq}
use Rattle.minijinja_syntax.specs.Texts.{Text}
use Rattle.minijinja_syntax.specs.Tokens.{Tok, template_data, variable_start, variable_end, block_start, block_end, ident, str, string, int, int128, plus, minus, mul, div, floor_div, pow, rem, dot, comma, colon, tilde, assign, pipe, eq, ne, gt, gte, lt, lte, bracket_open, bracket_close, paren_open, paren_close, brace_open, brace_close}
use Rattle.minijinja_tree.specs.BinOps as bin
use Rattle.minijinja_tree.specs.BinOps.{BinOp}
use Rattle.minijinja_tree.specs.CompareOps as cmp
use Rattle.minijinja_tree.specs.CompareOps.{CompareOp}

-- ---- the words that are constants, and so no variables

abbrev pub is_true_word : Text → Bool
is_true_word x = bytes_eq x (codes "true") || bytes_eq x (codes "True")

abbrev pub is_false_word : Text → Bool
is_false_word x = bytes_eq x (codes "false") || bytes_eq x (codes "False")

abbrev pub is_none_word : Text → Bool
is_none_word x = bytes_eq x (codes "none") || bytes_eq x (codes "None")

abbrev pub is_constant_word : Text → Bool
is_constant_word x = is_true_word x || is_false_word x || is_none_word x

-- the names that cannot be assigned to
abbrev pub is_reserved : Text → Bool
is_reserved x = is_constant_word x || bytes_eq x (codes "loop") || bytes_eq x (codes "self")

-- ---- which token it is

-- whether the second is the first
abbrev pub is : Tok → Tok → Bool
is (template_data t) (template_data u) = bytes_eq u t
is variable_start variable_start = true
is variable_end variable_end = true
is block_start block_start = true
is block_end block_end = true
is (ident x) (ident y) = bytes_eq y x
is (str t) (str u) = bytes_eq u t
is (string t) (string u) = bytes_eq u t
is (int n) (int m) = m == n
is (int128 n) (int128 m) = m == n
is plus plus = true
is minus minus = true
is mul mul = true
is div div = true
is floor_div floor_div = true
is pow pow = true
is rem rem = true
is dot dot = true
is comma comma = true
is colon colon = true
is tilde tilde = true
is assign assign = true
is pipe pipe = true
is eq eq = true
is ne ne = true
is gt gt = true
is gte gte = true
is lt lt = true
is lte lte = true
is bracket_open bracket_open = true
is bracket_close bracket_close = true
is paren_open paren_open = true
is paren_close paren_close = true
is brace_open brace_open = true
is brace_close brace_close = true
is _ _ = false

abbrev pub if_word : Tok
if_word = ident (codes "if")

abbrev pub else_word : Tok
else_word = ident (codes "else")

abbrev pub or_word : Tok
or_word = ident (codes "or")

abbrev pub and_word : Tok
and_word = ident (codes "and")

abbrev pub not_word : Tok
not_word = ident (codes "not")

abbrev pub in_word : Tok
in_word = ident (codes "in")

abbrev pub is_word : Tok
is_word = ident (codes "is")

abbrev pub recursive_word : Tok
recursive_word = ident (codes "recursive")

abbrev pub as_word : Tok
as_word = ident (codes "as")

abbrev pub import_word : Tok
import_word = ident (codes "import")

abbrev pub scoped_word : Tok
scoped_word = ident (codes "scoped")

abbrev pub required_word : Tok
required_word = ident (codes "required")

abbrev pub ignore_word : Tok
ignore_word = ident (codes "ignore")

abbrev pub missing_word : Tok
missing_word = ident (codes "missing")

abbrev pub with_word : Tok
with_word = ident (codes "with")

abbrev pub without_word : Tok
without_word = ident (codes "without")

abbrev pub context_word : Tok
context_word = ident (codes "context")

-- the words that end a body

abbrev pub elif_word : Tok
elif_word = ident (codes "elif")

abbrev pub endfor_word : Tok
endfor_word = ident (codes "endfor")

abbrev pub endif_word : Tok
endif_word = ident (codes "endif")

abbrev pub endwith_word : Tok
endwith_word = ident (codes "endwith")

abbrev pub endset_word : Tok
endset_word = ident (codes "endset")

abbrev pub endautoescape_word : Tok
endautoescape_word = ident (codes "endautoescape")

abbrev pub endfilter_word : Tok
endfilter_word = ident (codes "endfilter")

abbrev pub endblock_word : Tok
endblock_word = ident (codes "endblock")

abbrev pub endmacro_word : Tok
endmacro_word = ident (codes "endmacro")

abbrev pub endcall_word : Tok
endcall_word = ident (codes "endcall")

-- ---- what a token holds

abbrev pub is_identifier : Tok → Bool
is_identifier (ident x) = true
is_identifier _ = false

-- the text of a string
abbrev pub text_of : Tok → Option Text
text_of (str t) = Some t
text_of (string t) = Some t
text_of _ = None

-- ---- operators

abbrev pub or_op : Tok → Option BinOp
or_op t = if is or_word t then Some bin.sc_or else None

abbrev pub and_op : Tok → Option BinOp
and_op t = if is and_word t then Some bin.sc_and else None

abbrev pub sum_op : Tok → Option BinOp
sum_op plus = Some bin.add
sum_op minus = Some bin.sub
sum_op _ = None

abbrev pub cat_op : Tok → Option BinOp
cat_op tilde = Some bin.concat
cat_op _ = None

abbrev pub term_op : Tok → Option BinOp
term_op mul = Some bin.mul
term_op div = Some bin.div
term_op floor_div = Some bin.floor_div
term_op rem = Some bin.rem
term_op _ = None

-- the comparisons of one token
abbrev pub compare_op : Tok → Option CompareOp
compare_op eq = Some cmp.eq
compare_op ne = Some cmp.ne
compare_op lt = Some cmp.lt
compare_op lte = Some cmp.lte
compare_op gt = Some cmp.gt
compare_op gte = Some cmp.gte
compare_op (ident x) = if bytes_eq x (codes "in") then Some cmp.is_in else None
compare_op _ = None

-- ---- what begins a part of an expression

-- a Primary
abbrev pub begins_primary : Tok → Bool
begins_primary (ident x) = true
begins_primary (str t) = true
begins_primary (string t) = true
begins_primary (int n) = true
begins_primary (int128 n) = true
begins_primary paren_open = true
begins_primary bracket_open = true
begins_primary brace_open = true
begins_primary _ = false

-- an Expr: a Primary, or a `-`
abbrev pub begins_expr : Tok → Bool
begins_expr t = is minus t || begins_primary t

-- an Arg: an Expr, a `*` or a `**`
abbrev pub begins_arg : Tok → Bool
begins_arg t = is mul t || is pow t || begins_expr t

-- a Postfix
abbrev pub begins_postfix : Tok → Bool
begins_postfix t = is dot t || is bracket_open t || is paren_open t

-- a filter or a test
abbrev pub begins_suffix : Tok → Bool
begins_suffix t = is pipe t || is is_word t

-- a further comparison
abbrev pub begins_comparison : Tok → Bool
begins_comparison t = is not_word t || is_some (compare_op t)

-- a word that may be the bare argument of a test
abbrev pub is_bare_word : Text → Bool
is_bare_word x = not (bytes_eq x (codes "and") || bytes_eq x (codes "or") || bytes_eq x (codes "else") || bytes_eq x (codes "is"))

-- the bare argument of a test: such a word, a string, an integer, or one of `+`, `-`, `[` and `{`
abbrev pub begins_bare : Tok → Bool
begins_bare (ident x) = is_bare_word x
begins_bare (str t) = true
begins_bare (string t) = true
begins_bare (int n) = true
begins_bare (int128 n) = true
begins_bare plus = true
begins_bare minus = true
begins_bare bracket_open = true
begins_bare brace_open = true
begins_bare _ = false
