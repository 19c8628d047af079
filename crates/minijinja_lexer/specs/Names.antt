-- The identifier at the front of a text.
use Rattle.std.specs.Prelude.{ℕ, ◌+◌, Bool, false, ◌||◌, ◌==◌, if◌then◌else◌, List, [], ◌∷◌}
use Rattle.std.specs.Char.{len_utf8}
use Rattle.minijinja_lexer.specs.Bytes.{underscore}
use Rattle.unicode_ident.specs.Ident.{is_xid_start, is_xid_continue}

-- an XID_Start character or _
abbrev pub starts_name : ℕ → Bool
starts_name c = is_xid_start c || c == underscore

-- an XID_Continue character or _
abbrev pub continues_name : ℕ → Bool
continues_name c = is_xid_continue c || c == underscore

-- how many bytes the characters at the front have that may continue a name
abbrev pub name_len : List ℕ → ℕ
name_len [] = 0
name_len (c ∷ cs) = if continues_name c then len_utf8 c + name_len cs else 0

-- the characters begin an identifier
abbrev pub begins_name : List ℕ → Bool
begins_name [] = false
begins_name (c ∷ cs) = starts_name c
