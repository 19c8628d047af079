-- A finding is a line.
use Rattle.std.proofs.Common.{◌≡◌, ◌++◌, ◌∙◌, ap, append_assoc, codes, refl, sym}
use Rattle.std.specs.Fmt.{decimal}
use Rattle.minijinja_syntax.specs.Texts.{Text}
use Rattle.minijinja_syntax.specs.declared.tokens.Span.{Span}
use Rattle.minijinja_lint.specs.Findings.{does_not_use, remark_of}
use Rattle.mjc_commands.specs.Printed.{finding_line}
use Rattle.mjc_commands.proofs.Written.{written_on_ok}
use Rattle.mjc_commands.proofs.print.print_finding.Goals as goal

unused_line : (x : Text) (s : Span) → codes "macro " ++ (x ++ (codes " unused at " ++ (decimal s.start_line ++ (codes ":" ++ (decimal s.start_col ++ codes "\n"))))) ≡ finding_line (does_not_use x s)
unused_line x s = simp append_assoc refl

pub returns-in-UnusedMacro-clause-printed : goal.returns-in-UnusedMacro-clause-printed
returns-in-UnusedMacro-clause-printed g c =
    let line = unused_line c.in-UnusedMacro.name.now c.in-UnusedMacro.at in
    written_on_ok g.W.Write.contents c.writeln-in-UnusedMacro.result c.args.out.now c.writeln-in-UnusedMacro.new.self (line ∙ ap (λ f. finding_line (remark_of f)) (sym c.in-UnusedMacro.is)) c.writeln-in-UnusedMacro.ensures.bytes
