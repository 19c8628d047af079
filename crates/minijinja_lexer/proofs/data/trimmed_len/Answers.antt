use Rattle.std.proofs.Common.{sym, ap, ◌∙◌, subst, take, length, arith}
use Rattle.std.specs.Str.{IsUtf8}
use Rattle.std.proofs.lemmas.Str.{IsCharBoundary-from_take}
use Rattle.minijinja_lexer.proofs.data.trimmed_len.Goals as goal

pub returns-clause-boundary : goal.returns-clause-boundary
returns-clause-boundary c =
    let v = c.trim_end.ensures.value in
    IsCharBoundary-from_take c.args.text.now (length c.trim_end.result.now) c.utf8.text (omega arith)
    (subst IsUtf8 (v.1 ∙ ap (λ n. take n c.args.text.now) (sym v.4)) c.trim_end.utf8)

pub returns-clause-value : goal.returns-clause-value
returns-clause-value c =
    let e = ap length c.trim_end.ensures.trim in
    let v = c.trim_end.ensures.value in
    omega (arith, e, v)
