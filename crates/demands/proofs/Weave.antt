-- Two lists of steps on a memory, woven into each other: for any steps that keep to what they refer to.
use mathlib.Core.Path.{◌≡◌, refl, sym, ◌∙◌}
use mathlib.Core.Bool.{Bool, true, false}
use mathlib.Core.List.{List, [], ◌∷◌}
use Prim.Native.Nat.{ℕ}
use lib.ListN.{length, get_or}
use Rattle.demands.specs.Terminal.{Every}
use Rattle.demands.specs.Lists.{Side, Merge, neither, from_one, from_other}

-- two memories agree where a test does not hold
abbrev pub Off : (ℕ → Bool) → List ℕ → List ℕ → Type 0
Off U m n = (i : ℕ) → U i ≡ false → get_or m i 0 ≡ get_or n i 0

module _ {C H : Type 0} (tells : C → List ℕ → H) (leaves : C → List ℕ → List ℕ) where
  -- what a list of steps tells, and what it leaves
  unfoldable pub told : List C → List ℕ → List H
  told [] m = []
  told (c ∷ cs) m = tells c m ∷ told cs (leaves c m)

  unfoldable pub left : List C → List ℕ → List ℕ
  left [] m = m
  left (c ∷ cs) m = left cs (leaves c m)

module _ {C H : Type 0} (tells : C → List ℕ → H) (leaves : C → List ℕ → List ℕ) (refers stores : C → ℕ → Bool) (n : ℕ) where
  -- a step on memories of n bytes
  pub record Keeps (c : C) : Type 0 where
    -- it keeps their length
    pub long : (m : List ℕ) → length m ≡ n → length (leaves c m) ≡ n
    -- it stores only where it refers to, and every other byte stays
    pub within : (i : ℕ) → refers c i ≡ false → stores c i ≡ false
    pub frame : (m : List ℕ) (i : ℕ) → length m ≡ n → stores c i ≡ false → get_or (leaves c m) i 0 ≡ get_or m i 0
    -- what it tells, and what it leaves where it refers to, follows from the bytes that it refers to
    pub same : (m k : List ℕ) → length m ≡ n → length k ≡ n → ((i : ℕ) → refers c i ≡ true → get_or m i 0 ≡ get_or k i 0) → tells c m ≡ tells c k
    pub puts : (m k : List ℕ) (i : ℕ) → length m ≡ n → length k ≡ n → ((i : ℕ) → refers c i ≡ true → get_or m i 0 ≡ get_or k i 0) → refers c i ≡ true
        → get_or (leaves c m) i 0 ≡ get_or (leaves c k) i 0

  -- a step that stores only in W and refers to nothing of U
  abbrev pub Fits : (ℕ → Bool) → (ℕ → Bool) → C → Type 0
  Fits U W c = Keeps c × ((i : ℕ) → W i ≡ false → stores c i ≡ false) × ((i : ℕ) → refers c i ≡ true → U i ≡ false)

  module _ (U W : ℕ → Bool) (c : C) (fits : Fits U W c) where
    agrees : (m k : List ℕ) → Off U m k → (i : ℕ) → refers c i ≡ true → get_or m i 0 ≡ get_or k i 0
    agrees m k off i r = off i (fits.2 i r)

    -- two memories that agree off U still do, after the step on both
    mine : (m k : List ℕ) → length m ≡ n → length k ≡ n → Off U m k → Off U (leaves c m) (leaves c k)
    mine m k lm lk off i e = go (refers c i) refl
      where
        go : (t : Bool) → refers c i ≡ t → get_or (leaves c m) i 0 ≡ get_or (leaves c k) i 0
        go true r = fits.0.puts m k i lm lk (agrees m k off) r
        go false r =
            let s = fits.0.within i r in
            fits.0.frame m i lm s ∙ off i e ∙ sym (fits.0.frame k i lk s)

    -- and two that agree off W, after the step on the first alone
    theirs : (m k : List ℕ) → length m ≡ n → Off W m k → Off W (leaves c m) k
    theirs m k lm off i e = fits.0.frame m i lm (fits.1 i e) ∙ off i e

  -- m goes through the merged list, a through the one list and b through the other
  module _ (U W : ℕ → Bool) where
    abbrev Woven : List Side → List C → List C → List C → List ℕ → List ℕ → List ℕ → Type 0
    Woven pattern xs ys zs m a b =
        Merge pattern (told tells leaves xs a) (told tells leaves ys b) (told tells leaves zs m)
        × Off U (left tells leaves zs m) (left tells leaves xs a)
        × Off W (left tells leaves zs m) (left tells leaves ys b)

    pub weave : {pattern : List Side} {xs ys zs : List C} (m a b : List ℕ) → Merge pattern xs ys zs → Every (Fits U W) xs → Every (Fits W U) ys
        → length m ≡ n → length a ≡ n → length b ≡ n → Off U m a → Off W m b → Woven pattern xs ys zs m a b
    unfolding told left
    weave m a b neither fx fy lm la lb ua wb = (neither, ua, wb)
    weave m a b (from_one {x = x} w) fx fy lm la lb ua wb =
        let k = fx.0.0 in
        let r = weave (leaves x m) (leaves x a) b w fx.1 fy (k.long m lm) (k.long a la) lb (mine U W x fx.0 m a lm la ua) (theirs U W x fx.0 m b lm wb) in
        (rw (k.same m a lm la (agrees U W x fx.0 m a ua)) (from_one r.0), r.1, r.2)
    weave m a b (from_other {y = y} w) fx fy lm la lb ua wb =
        let k = fy.0.0 in
        let r = weave (leaves y m) a (leaves y b) w fx fy.1 (k.long m lm) la (k.long b lb) (theirs W U y fy.0 m a lm ua) (mine W U y fy.0 m b lm lb wb) in
        (rw (k.same m b lm lb (agrees W U y fy.0 m b wb)) (from_other r.0), r.1, r.2)
