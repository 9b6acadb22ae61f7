-- `tokens::follow` meets its contract. The loop's invariant: the tokens of the text from `next` on follow those of the
-- script from `due` on as they do from the start, and both places are of tokens, or the end (Walked). The measure is
-- what is left of the script; a token has a byte. Assumes nothing.
use Prim.Native.Nat.{◌-◌}
use lib.ListN.{length}
use Rattle.tokens.proofs.Laws.Follows.{Walked}
use Rattle.tokens.proofs.follow.Given as goal

abbrev pub invariant-loop-due : goal.invariant-loop-due
invariant-loop-due l = Walked l.text l.script l.at l.next l.due

abbrev pub decreases-loop-due : goal.decreases-loop-due
decreases-loop-due l = length l.script - l.due
