-- `lab::respond::put_response` meets its contract: a text that is too long has its line; any other is read, and has the
-- line of its place or the reply to its words. Assumes nothing.
use mathlib.Core.List.{List}
use mathlib.Core.Path.{sym, ◌∙◌, ◌≡◌}
use Prim.Native.Nat.{ℕ}
use native.Mathlib.Omega.{arith}
use lib.IntN.{ℤ, pos}
use lib.ListN.{length-replicate, length-take, replicate}
use Rattle.rules.specs.Exchange.Reader.{read_text}
use Rattle.rules.specs.Refusal.{problem_refusal}
use Rattle.rules.specs.Sizes.{most_words}
use Rattle.reader.specs.Taken.{taken_by, taken_output}
use Rattle.reader.specs.declared.Taken.{Taken}
use Rattle.lines.proofs.Replies.{put_as}
use Rattle.lab.proofs.Laws.{TextTold, text-told, lab-long, lab-short, told-place}
use Rattle.lab.proofs.respond.put_response.Goals as goal

-- the words were found
words-found : {t : List ℕ} {r : Taken} {after : List ℤ} → r ≡ taken_by (read_text t) most_words →
    after ≡ taken_output (read_text t) (replicate most_words (pos 0)) → r.refused ≡ 0 → TextTold t r.count after
words-found {t} {r} {after} a k h =
    text-told t r a (replicate most_words (pos 0)) after (length-replicate most_words (pos 0)) k h

pub returns-then-text-gt-MOST_INPUT : goal.returns-then-text-gt-MOST_INPUT
returns-then-text-gt-MOST_INPUT c =
    put_as (lab-long c.args.text.now c.if-text-gt-MOST_INPUT.true) c.put_place.ensures

pub returns-then-taken-ne0 : goal.returns-then-taken-ne0
returns-then-taken-ne0 c =
    put_as
    (told-place c.args.text.now c.read-taken.result c.read-taken.ensures.answer c.if-taken-ne0.true
    ∙ lab-short c.args.text.now c.if-text-gt-MOST_INPUT.false)
    c.put_place-then-taken-ne0.ensures

pub slice_bounds-words-end : goal.slice_bounds-words-end
slice_bounds-words-end c =
    let h = words-found c.read-taken.ensures.answer c.read-taken.ensures.content c.if-taken-ne0.false in
    omega (arith, h.many, length-take c.read-taken.result.count c.read-taken.new.out)

pub slice_bounds-put_reply-end : goal.slice_bounds-put_reply-end
slice_bounds-put_reply-end c =
    (words-found c.read-taken.ensures.answer c.read-taken.ensures.content c.if-taken-ne0.false).many

pub returns : goal.returns
unfolding problem_refusal
returns c =
    let h = words-found c.read-taken.ensures.answer c.read-taken.ensures.content c.if-taken-ne0.false in
    put_as (sym h.text ∙ lab-short c.args.text.now c.if-text-gt-MOST_INPUT.false) c.put_reply.ensures
