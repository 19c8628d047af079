use Rattle.std.proofs.Common.{sym, ap, ◌∙◌, arith}
use Rattle.minijinja_syntax.specs.declared.syntax.StartMarker.TheVariants.{Variable, Block, Comment, LineStatement, LineComment}
use Rattle.minijinja_lexer.specs.Cut.{tag_at, block_to, comment_at, line_comment_at}
use Rattle.minijinja_lexer.specs.Raw.{raw_at}
use Rattle.minijinja_lexer.specs.Tags as tags
use Rattle.minijinja_lexer.proofs.OutsideSteps.{body_is, marked_as}
use Rattle.minijinja_lexer.proofs.outside.marked_at.Goals as goal

pub block_at-requires-clause-segment : goal.block_at-requires-clause-segment
block_at-requires-clause-segment c =
    let s = c.args.syntax.now in
    let text = c.args.text.now in
    marked_as s text c.args.at c.args.marker Block c.requires.marker c.in-Block.is
    ∙ ap (λ n. block_to s text c.args.at n (raw_at s text n)) (sym (body_is s text c.args.at c.args.len c.body_of-body.result c.args.marker Block c.requires.len c.body_of-body.ensures.value c.in-Block.is))

pub comment_at-requires-clause-segment : goal.comment_at-requires-clause-segment
comment_at-requires-clause-segment c =
    let s = c.args.syntax.now in
    let text = c.args.text.now in
    marked_as s text c.args.at c.args.marker Comment c.requires.marker c.in-Comment.is
    ∙ ap (comment_at s text c.args.at) (sym (body_is s text c.args.at c.args.len c.body_of-body.result c.args.marker Comment c.requires.len c.body_of-body.ensures.value c.in-Comment.is))

pub line_comment_at-requires-clause-segment : goal.line_comment_at-requires-clause-segment
line_comment_at-requires-clause-segment c =
    let s = c.args.syntax.now in
    let text = c.args.text.now in
    marked_as s text c.args.at c.args.marker LineComment c.requires.marker c.in-LineComment.is
    ∙ ap (line_comment_at text c.args.at) (sym (body_is s text c.args.at c.args.len c.body_of-body.result c.args.marker LineComment c.requires.len c.body_of-body.ensures.value c.in-LineComment.is))

pub returns-in-Variable : goal.returns-in-Variable
returns-in-Variable c =
    let s = c.args.syntax.now in
    let text = c.args.text.now in
    record {
      segment = marked_as s text c.args.at c.args.marker Variable c.requires.marker c.in-Variable.is
          ∙ ap (tag_at s text tags.Variable c.args.at) (sym (body_is s text c.args.at c.args.len c.body_of-body.result c.args.marker Variable c.requires.len c.body_of-body.ensures.value c.in-Variable.is));
      moves = omega (arith, c.body_of-body.ensures.value, c.requires.some);
      boundary = c.body_of-body.ensures.boundary;
    }

pub returns-in-LineStatement : goal.returns-in-LineStatement
returns-in-LineStatement c =
    let s = c.args.syntax.now in
    let text = c.args.text.now in
    record {
      segment = marked_as s text c.args.at c.args.marker LineStatement c.requires.marker c.in-LineStatement.is
          ∙ ap (tag_at s text tags.Line c.args.at) (sym (body_is s text c.args.at c.args.len c.body_of-body.result c.args.marker LineStatement c.requires.len c.body_of-body.ensures.value c.in-LineStatement.is));
      moves = omega (arith, c.body_of-body.ensures.value, c.requires.some);
      boundary = c.body_of-body.ensures.boundary;
    }
