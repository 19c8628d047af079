use Rattle.std.proofs.Common.{sym, subst}
use Rattle.minijinja_tree.specs.SpannedErasure.{stmt_node}
use Rattle.minijinja_tree.proofs.Bare.{stmt_is}
use Rattle.minijinja_grammar.specs.Derived.{IsTemplateTree}
use Rattle.minijinja_meta.specs.Mentions.{way}
use Rattle.minijinja_meta.proofs.FirstSegments.{first_texts}
use Rattle.minijinja_parser.specs.Derived.{template_place}
use Rattle.minijinja_compiler.proofs.DotlessTokens.{identifiers_dotless}
use Rattle.minijinja_compiler.proofs.NamesOfTokens.{names_of_tokens}
use Rattle.minijinja_compiler.proofs.laws.names_are_identifiers.Goals as goal

pub returns-clause-tokens : goal.returns-clause-tokens
returns-clause-tokens g c = λ syntax source s h.
    let v = g.V.TemplateValue.contents in
    let f = g.V.TemplateValue.functions in
    names_of_tokens f (template_place syntax source) (stmt_node v s) (subst (IsTemplateTree f (template_place syntax source)) (sym (stmt_is v s)) h)

pub returns-clause-texts : goal.returns-clause-texts
returns-clause-texts g c = λ syntax source s utf8 delimiters h.
    let names = returns-clause-tokens g c syntax source s h in
    first_texts (way (stmt_node g.V.TemplateValue.contents s)) (λ k d i. identifiers_dotless syntax source _ delimiters utf8 (names k d i))
