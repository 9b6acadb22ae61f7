-- `solver::run::tell` meets its contract: one case for each way a run ends. Assumes nothing.
use mathlib.Core.List.{List}
use mathlib.Core.Path.{◌≡◌, ap, ap₂, sym, ◌∙◌}
use Prim.Native.Nat.{ℕ}
use borrow.Author.Rules.{rules}
use lib.IntN.{ℤ, pos}
use mir.Facts.{to_z-of_z}
use mir.Syntax.{w32, w64}
use mir.Val.{SFits, of_z, to_z}
use Rattle.whole.proofs.Numbers.Halves.{wide}
use Rattle.tableau.specs.declared.Tableau.{Tableau}
use Rattle.answers.specs.declared.Verdict.{Verdict}
use Rattle.answers.specs.declared.Verdict.TheVariants as verdicts
use Rattle.answers.specs.Answer.{laid_over, numerators_at, words_at}
use Rattle.answers.proofs.Laws.Needs.{smalls-nought}
use Rattle.steps.specs.declared.End.{End}
use Rattle.steps.specs.declared.End.TheVariants as ends
use Rattle.steps.specs.Step.{over}
use Rattle.solver.specs.Run.{words_laid}
use Rattle.solver.specs.Spend.{many_of, out_by}
use Rattle.solver.proofs.run.tell.Goals as goal

-- the last tableau, and the output as it was
module _ (t : Tableau) (k : ℕ) (before : List ℤ) where
  abbrev said : Verdict → ℤ → List ℤ → List ℤ → List ℤ
  said v d l x = laid_over (many_of t) before (words_at v k d (many_of t) l x)

  -- what is written for an end is what was promised
  told : {w : End} (e : End) → w ≡ e → {out : List ℤ} → out ≡ out_by (over e) k t before →
      out ≡ out_by (over w) k t before
  told e q h = h ∙ ap (λ w. out_by (over w) k t before) (sym q)

  can-told : {w : End} → w ≡ ends.Can → {d : ℤ} {l x out : List ℤ} → out ≡ said verdicts.Can d l x →
      d ≡ t.common → l ≡ numerators_at t t.values → x ≡ numerators_at t t.smalls → out ≡ out_by (over w) k t before
  unfolding words_laid
  can-told q {l = l} {x = x} o e f g = told ends.Can q (o ∙ ap (λ d. said verdicts.Can d l x) e
      ∙ ap₂ (said verdicts.Can t.common) f g)

-- a word of 32 bits, widened
widened : {d z : ℤ} → SFits w32 d → z ≡ d → to_z w64 (of_z w64 z) ≡ d
widened f e = rw e (to_z-of_z (wide f))

-- ---- every variable is within its limits

pub returns-then-t : goal.returns-then-t
returns-then-t c = let a = c.args in let fit : SFits w32 a.t.now.common = search rules in
    can-told a.t.now a.count a.out.now c.in-Can.is c.write.ensures
    (widened fit (simp (to_z-of_z fit) at c.from.ensures))
    (simp (to_z-of_z fit) at c.numerators_of-found.ensures)
    (simp (to_z-of_z fit) at c.numerators_of-others.ensures)

pub returns-else-t : goal.returns-else-t
returns-else-t c = let a = c.args in let fit : SFits w32 a.t.now.common = search rules in
    can-told a.t.now a.count a.out.now c.in-Can.is c.write-in-Can.ensures
    (widened fit (simp (to_z-of_z fit) at c.from.ensures))
    (simp (to_z-of_z fit) at c.numerators_of-found.ensures)
    (smalls-nought c.requires.tellable.searchable c.if-t.false)

-- ---- one is outside and stuck

pub returns-in-Cannot : goal.returns-in-Cannot
unfolding words_laid
returns-in-Cannot c = let a = c.args in let t = a.t.now in let fit : SFits w32 t.common = search rules in
    told t a.count a.out.now (ends.Cannot c.in-Cannot.blocked) c.in-Cannot.is
    (c.write-in-Cannot.ensures
    ∙ ap (λ x. said t a.count a.out.now verdicts.Cannot (pos 0) x.lower x.upper)
    (simp (to_z-of_z fit) at c.multipliers_of-found.ensures))

-- ---- a number is too large

pub returns-in-Range : goal.returns-in-Range
unfolding words_laid
returns-in-Range c = rw c.in-Range.is cc
