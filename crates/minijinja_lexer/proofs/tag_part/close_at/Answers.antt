use Rattle.std.proofs.Common.{ap, length, sym, ◌∙◌, arith}
use Rattle.minijinja_syntax.specs.declared.syntax.StartMarker.TheVariants.{Variable, Block}
use Rattle.minijinja_syntax.specs.Syntax.{end_of}
use Rattle.minijinja_lexer.specs.Cut.{close_at, delimited_close, end_at}
use Rattle.minijinja_lexer.specs.private.Views.{tag_view}
use Rattle.minijinja_lexer.proofs.Ends.{no_end}
use Rattle.minijinja_lexer.proofs.tag_part.close_at.Goals as goal

pub returns-then-not-may_end-clause-value : goal.returns-then-not-may_end-clause-value
unfolding close_at
returns-then-not-may_end-clause-value c =
    let s = c.args.syntax.now in
    let text = c.args.text.now in
    let some = c.requires.ends.built.delimiters Variable tt in
    let none = no_end (end_of s Variable) text c.args.start c.args.ends.variable some.1 c.requires.ends.variable (sym c.may_end.ensures ∙ c.if-not-may_end.true) in
    sym (
    ap (λ t. close_at s text (tag_view t) c.args.at) c.in-Variable.is
    ∙ ap (λ p. delimited_close s text Variable p (end_at (end_of s Variable) text p)) (sym c.requires.space)
    ∙ ap (delimited_close s text Variable c.args.start) none
    )

pub returns-then-not-may_end-2-clause-value : goal.returns-then-not-may_end-2-clause-value
unfolding close_at
returns-then-not-may_end-2-clause-value c =
    let s = c.args.syntax.now in
    let text = c.args.text.now in
    let some = c.requires.ends.built.delimiters Block tt in
    let none = no_end (end_of s Block) text c.args.start c.args.ends.block some.1 c.requires.ends.block (sym c.may_end-in-Block.ensures ∙ c.if-not-may_end-2.true) in
    sym (
    ap (λ t. close_at s text (tag_view t) c.args.at) c.in-Block.is
    ∙ ap (λ p. delimited_close s text Block p (end_at (end_of s Block) text p)) (sym c.requires.space)
    ∙ ap (delimited_close s text Block c.args.start) none
    )

pub delimiter_close-requires-clause-some : goal.delimiter_close-requires-clause-some
delimiter_close-requires-clause-some c = let l = ap length c.variable_delimiters.ensures.end in let some = c.variable_delimiters.ensures.built.delimiters Variable tt in omega (arith, l, some.1)

pub delimiter_close-requires-in-Block-clause-some : goal.delimiter_close-requires-in-Block-clause-some
delimiter_close-requires-in-Block-clause-some c = let l = ap length c.block_delimiters.ensures.end in let some = c.block_delimiters.ensures.built.delimiters Block tt in omega (arith, l, some.1)
