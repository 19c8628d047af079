-- Texts between quotes.
use Rattle.std.specs.Prelude.{ℕ, ◌==◌, if◌then◌else◌, codes, ◌∷◌, [], ◌++◌}
use Rattle.std.specs.List.{flat_map}
use Rattle.minijinja_text.specs.Texts.{Text}

-- `"`
abbrev pub quote_mark : ℕ
quote_mark = 34

-- `\`
abbrev pub backslash : ℕ
backslash = 92

-- what stands for a byte between quotes: newline, return and tab as letters
abbrev pub escaped : ℕ → Text
escaped b =
    if b == quote_mark then backslash ∷ quote_mark ∷ []
    else (if b == backslash then backslash ∷ backslash ∷ []
    else (if b == 10 then backslash ∷ codes "n"
    else (if b == 13 then backslash ∷ codes "r"
    else (if b == 9 then backslash ∷ codes "t"
    else b ∷ []))))

-- the text between quotes
abbrev pub quoted : Text → Text
quoted text = quote_mark ∷ flat_map escaped text ++ quote_mark ∷ []
