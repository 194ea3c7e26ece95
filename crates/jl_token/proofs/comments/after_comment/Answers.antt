use Rattle.std.proofs.Common.{arith, rules, sym}
use Rattle.jl_token.proofs.Ends.{comment-is_comment_end, comment-is_comment_start, comment-other}
use Rattle.jl_token.proofs.comments.after_comment.Goals as goal

pub loop-first-preserved-then-is_comment_end : goal.loop-first-preserved-then-is_comment_end
loop-first-preserved-then-is_comment_end c = (
  search rules,
  comment-is_comment_end c.loop-first.around c.in-Some.first c.in_ok-second.second _ _ _ _ c.in-Some.ensures.split c.in_ok-second.ensures.split c.loop-first.invariant.1 (sym c.if-is_comment_end.ensures) (search rules),
  omega (arith, c.in-Some.ensures.shorter, c.in_ok-second.ensures.shorter),
)

pub loop-first-preserved-then-is_comment_start : goal.loop-first-preserved-then-is_comment_start
loop-first-preserved-then-is_comment_start c = (
  search rules,
  comment-is_comment_start c.loop-first.around c.in-Some.first c.in_ok-second.second _ _ _ _ c.in-Some.ensures.split c.in_ok-second.ensures.split c.loop-first.invariant.1 (sym c.if-is_comment_end.ensures) (sym c.if-is_comment_start.ensures),
  omega (arith, c.in-Some.ensures.shorter, c.in_ok-second.ensures.shorter),
)

pub loop-first-preserved : goal.loop-first-preserved
loop-first-preserved c = (
  search rules,
  comment-other c.loop-first.around c.in-Some.first c.in_ok-second.second _ _ _ _ c.in-Some.ensures.split c.in_ok-second.ensures.split c.loop-first.invariant.1 (sym c.if-is_comment_end.ensures) (sym c.if-is_comment_start.ensures),
  omega (arith, c.in-Some.ensures.shorter),
)
