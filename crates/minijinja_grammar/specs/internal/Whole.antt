-- What a form derives of all tokens that are left.
use Rattle.std.specs.Prelude.{◌≡◌, []}
use Rattle.minijinja_syntax.specs.Streams.{finished}
use Rattle.minijinja_grammar.specs.Places.{Place}
use Rattle.minijinja_grammar.specs.internal.Forms.{Form, Derives}

-- the tokens that are left at the place end unrefused, and all of them are of the form, which gives
-- this tree
pub record IsWholeOf {A : Type 0} (form : Form A) (p : Place) (tree : A) : Type 0 where
  pub unrefused : p.ending ≡ finished
  pub stop : Place
  pub derived : Derives form p stop tree
  pub none_left : stop.tokens ≡ []
