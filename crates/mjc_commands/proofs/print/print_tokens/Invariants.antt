-- Each call takes the first of the remaining tokens, and those so far are written.
use Rattle.std.proofs.Common.{◌≡◌, ◌++◌, List, length}
use Rattle.minijinja_syntax.specs.Streams.{SpannedTok}
use Rattle.mjc_commands.specs.PrintedTokens.{tokens_words}
use Rattle.mjc_commands.specs.Watched.{IsWritten, error_of}
use Rattle.mjc_commands.proofs.print.print_tokens.Given as goal

abbrev pub invariant-loop-token : goal.invariant-loop-token
invariant-loop-token g l = record {
  ending : l.tokens.stream.ending ≡ l.initial.tokens.stream.ending;
  unfailed : error_of l.out ≡ error_of l.initial.out;
  first : List SpannedTok;
  are : l.initial.tokens.stream.tokens ≡ first ++ l.tokens.stream.tokens;
  written : IsWritten g.W.Write.contents l.initial.out l.out (tokens_words first);
}

abbrev pub decreases-loop-token : goal.decreases-loop-token
decreases-loop-token g l = length l.tokens.stream.tokens
