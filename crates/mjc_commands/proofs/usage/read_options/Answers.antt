-- Each turn of the loop reads one option, and the last one leaves the paths.
use Rattle.std.proofs.Common.{arith, ap, subst, length, length-drop}
use Rattle.mjc_commands.specs.Settings.{texts}
use Rattle.mjc_commands.specs.Commands.{syntax_of}
use Rattle.mjc_commands.proofs.Requests.{Reads, over, goes_on, goes_over, read_words}
use Rattle.mjc_commands.proofs.usage.read_options.Goals as goal

pub loop-count-preserved : goal.loop-count-preserved
loop-count-preserved c =
    let here = c.words_from.ensures in
    let on = goes_on c.args.words.now c.loop-count.start c.in-Some.count c.words_from.result.now (syntax_of c.loop-count.options) (syntax_of c.take.new.self) here c.in-Some.ensures.first in
    record {
      within = let same = ap length here in omega (arith, c.in-Some.ensures.within, length-drop c.loop-count.start c.args.words.now);
      onward = λ t paths reads. on.onward t paths (c.loop-count.invariant.onward t paths reads);
      back = λ t paths reads. c.loop-count.invariant.back t paths (on.back t paths reads);
    }

pub returns-clause-heeded : goal.returns-clause-heeded
returns-clause-heeded c =
    goes_over c.args.words.now c.words_from.result.now c.words_from-2.result.now c.loop-count.start (syntax_of c.args.options.now) (syntax_of c.loop-count.options) (syntax_of c.take.new.self) c.words_from.ensures c.words_from-2.ensures c.in_default.ensures.first c.loop-count.invariant.onward

pub returns-clause-behind : goal.returns-clause-behind
returns-clause-behind c = λ begin.
    let left = ap texts c.words_from-2.ensures in
    let paths = texts c.words_from-2.result.now in
    let reads = subst (λ ws. Reads (syntax_of c.loop-count.options) ws (syntax_of c.loop-count.options) paths) left (over begin) in
    read_words (c.loop-count.invariant.back (syntax_of c.loop-count.options) paths reads)
