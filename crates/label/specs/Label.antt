-- Labels, their range, their order and New label (01, "Labels"; 003, Definitions 1 and 4 to 6, Algorithm 1).
use Rattle.std.specs.Prelude.{ℕ, ◌+◌, ◌<◌, ◌≡◌, ◌↔◌, Bool, true, false, ◌&&◌, ◌||◌, not, ltb, eqb, if◌then◌else◌, Result, Ok, Err}
use Rattle.base.specs.Numbers.{max_u32}
use Rattle.fraction.specs.declared.Fraction.{Fraction}
use Rattle.fraction.specs.Fraction.{fraction, is_smaller, Between, Simplest, simplest}
use Rattle.label.specs.declared.Label.{Label}
use Rattle.label.specs.declared.NotTaken.{NotTaken}
use Rattle.label.specs.declared.NotTaken.TheVariants.{OutOfRange, OwnNotAbove, CachedNotAbove, Overflow}

-- "A label is (s, m/d)".
abbrev pub label : ℕ → ℕ → ℕ → Label
label s m d = record { s = record { 0 = s }; m = m; d = d }

-- "Unassigned is (0, 1/1)".
unfoldable pub unassigned : Label
unassigned = label 0 1 1

unfoldable pub is_unassigned : Label → Bool
is_unassigned l = eqb l.s.0 0 && eqb l.m 1 && eqb l.d 1

-- "every other label has s > 0 and m < d".
unfoldable pub in_range : Label → Bool
in_range l = is_unassigned l || ltb 0 l.s.0 && ltb l.m l.d

abbrev pub fraction_of : Label → Fraction
fraction_of l = fraction l.m l.d

-- X's fraction is smaller than Y's, by whole products (003, Definition 4).
abbrev pub smaller_fraction : Label → Label → Bool
smaller_fraction x y = is_smaller (fraction_of x) (fraction_of y)

-- "Label X is above Y (003's X ≻ Y, Definition 5) if X's s is smaller, or both s are equal and Y's fraction is smaller by whole products".
unfoldable pub above : Label → Label → Bool
above x y = ltb x.s.0 y.s.0 || eqb x.s.0 y.s.0 && smaller_fraction y x

-- X ≻ Y: X is above Y. X ⪰ Y: "X is at least Y if Y isn't above X".
infix 40 ◌≻◌ ◌⪰◌
abbrev pub ◌≻◌ : Label → Label → Type 0
◌≻◌ x y = above x y ≡ true

abbrev pub ◌⪰◌ : Label → Label → Type 0
◌⪰◌ x y = above y x ≡ false

-- What New label gives: the label that is taken, or the number of the case in which there is none.
pub data Outcome : Type 0 where
  took : Label → Outcome
  gave : ℕ → Outcome

-- The label (s, m/d), but "a denominator over 4,294,967,295, in a split or in q+1, gives 114".
unfoldable pub fitting : ℕ → ℕ → ℕ → Outcome
fitting s m d = if ltb max_u32 d then gave 114 else took (label s m d)

-- "(v, (p+1)/(q+1))": V + 1/1 (003, Definition 6).
unfoldable pub next : Label → Outcome
next v = fitting v.s.0 (v.m + 1) (v.d + 1)

-- A rule for splits: what it gives for C and V of one sequence number, where C is above V.
abbrev pub Splitting : Type 0
Splitting = Label → Label → Outcome

-- The rule: "A split now takes the fraction strictly between V's and C's with the least denominator" (02, F-6).
unfoldable pub split : Splitting
split c v = let f = simplest (fraction_of v) (fraction_of c) in fitting v.s.0 f.m f.d

-- The rule before it: "Split is (v, (m+p)/(d+q)) with C = (v, m/d)": V + m/d.
unfoldable pub mediant : Splitting
mediant c v = fitting v.s.0 (c.m + v.m) (c.d + v.d)

-- What F-6 says of a split: the label that is taken has V's s and "the fraction strictly between V's and C's with the least denominator", and
-- "114 is given for a split if and only if no fraction strictly between has a denominator of at most 4,294,967,295"; no other number is given.
pub record SplitRule (c v : Label) (o : Outcome) : Type 0 where
  pub number : (g : Label) → o ≡ took g → g.s.0 ≡ v.s.0
  pub taken : (g : Label) → o ≡ took g → Simplest (fraction_of v) (fraction_of c) (fraction_of g)
  pub overflow : (o ≡ gave 114) ↔ ((f : Fraction) → Between (fraction_of v) (fraction_of c) f → max_u32 < f.d)
  pub only : (k : ℕ) → o ≡ gave k → k ≡ 114

-- "New label (003, Algorithm 1) from own label A, cached label C, advertised label V = (v, p/q)", by a rule for splits. After the first four lines
-- A's s = v.
unfoldable pub new_label_by : Splitting → Label → Label → Label → Outcome
new_label_by splits a c v =
    if not (above a v) then gave 112
    else if not (above c v) then gave 113
    else if ltb a.s.0 v.s.0 && ltb c.s.0 v.s.0 then next v
    else if ltb a.s.0 v.s.0 && eqb c.s.0 v.s.0 then splits c v
    else if above c a then took a
    else splits c v

-- By the rule of F-6. So it is with every name that stands beside one ending in `_by`.
abbrev pub new_label : Label → Label → Label → Outcome
new_label = new_label_by split

-- New label as a call, of any three labels. 01, "Numbers for calls turned down": 1 for "a label out of range".
unfoldable pub new_label_call : Label → Label → Label → Outcome
new_label_call a c v = if not (in_range a && in_range c && in_range v) then gave 1 else new_label a c v

-- 01's number, or the label, for each answer of the code.
abbrev pub outcome : Result Label NotTaken → Outcome
outcome (Ok l) = took l
outcome (Err OutOfRange) = gave 1
outcome (Err OwnNotAbove) = gave 112
outcome (Err CachedNotAbove) = gave 113
outcome (Err Overflow) = gave 114

-- The label g maintains order (003, Definition 1) for own label a, cached label c and advertised label v: equations 3, 4 and 5; and it is in range.
pub record MaintainsOrder (a c v g : Label) : Type 0 where
  pub own : a ⪰ g
  pub cached : c ≻ g
  pub advertised : g ≻ v
  pub ranged : in_range g ≡ true

-- The label that New label takes, by this rule for splits, maintains order, where the three labels are in range.
abbrev pub KeepsOrder : Splitting → Type 0
KeepsOrder splits =
    (a c v g : Label) → in_range a ≡ true → in_range c ≡ true → in_range v ≡ true → new_label_by splits a c v ≡ took g → MaintainsOrder a c v g
