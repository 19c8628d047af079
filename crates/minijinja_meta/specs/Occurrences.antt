-- What a list of occurrences stands for.
use Rattle.std.specs.Prelude.{◌≡◌, Bool, List, map}
use Rattle.std.specs.Borrow.{Bor}
use Rattle.minijinja_syntax.specs.Texts.{Text}
use Rattle.minijinja_syntax.specs.declared.tokens.Span.{Span}
use Rattle.minijinja_tree.specs.SpannedErasure.{expr_node}
use Rattle.minijinja_meta.specs.Mentions.{Mention, Way, occurs, attributes_of, through}
use Rattle.minijinja_meta.specs.declared.mentions.Occurrence.{Occurrence}

-- the variable that occurs, with the attributes of its chain
abbrev pub mention_of : {V F C : Type 0} → (V → C) → Occurrence V F → Mention
mention_of c o = record { name = o.name.now; attributes = attributes_of (expr_node c o.chain.now); span = o.span }

-- each with whether it is free
abbrev pub found_of : {V F C : Type 0} → (V → C) → List (Occurrence V F) → List (Mention × Bool)
found_of c os = map (λ o. (mention_of c o, o.is_free)) os

-- the way through its chain is this occurrence alone
abbrev pub IsChain : {V F C : Type 0} → (V → C) → Occurrence V F → Type 0
IsChain c o = (w : Way) → through (expr_node c o.chain.now) w ≡ occurs (mention_of c o) w

-- macro statements
abbrev pub macros_of : List (Bor Text × Span) → List (Text × Span)
macros_of ms = map (λ m. (m.0.now, m.1)) ms
