-- The code of calls of blocks, while it is being made.
use Rattle.std.specs.Prelude.{Bool, false, [], codes, bytes_eq}
use Rattle.minijinja_syntax.specs.Texts.{Text}
use Rattle.minijinja_tree.specs.Tree.{Expr, variable}
use Rattle.minijinja_semantics.specs.Code.{Do}
use Rattle.minijinja_semantics.specs.Events.{BeginCapture, CallBlock, EndCapture, Capture}
use Rattle.minijinja_semantics.specs.Pieces.{Piece, one, ◌▸◌}

-- the variable that stands for the template itself
abbrev pub is_self : {C : Type 0} → Expr C → Bool
is_self (variable x) = bytes_eq x (codes "self")
is_self _ = false

-- a call of a block is captured
abbrev pub captured : {C : Type 0} → Text → Piece C
captured x = one (Do (BeginCapture Capture) [] 0) ▸ one (Do CallBlock x 0) ▸ one (Do EndCapture [] 0)
