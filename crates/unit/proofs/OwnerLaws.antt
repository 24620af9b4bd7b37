-- Laws of the owner, in document 01's words ('Owner'): each test in the definition has been decided.
use Rattle.std.proofs.Common.{◌≡◌, ℕ, Bool, true, not, ◌&&◌, eqb, ◌≢◌, ◌↔◌, replicate, refl, eq-eqb, ne_eqb, eqb-true}
use mathlib.Core.Bool.{and-eq-true_iff}
use borrow.Author.Tests.{eqb-false, not-true}
use Rattle.packets.specs.Path.{path_of, same_path}
use Rattle.packets.specs.declared.path.Path.{Path}
use Rattle.packets.proofs.PathLaws.{same_path_law, path_same}
use Rattle.unit.specs.Owner.{is_owner, swapped}
use Rattle.unit.specs.declared.owner.Owner.{Owner}

-- for the sender of a command
module _ (o : Owner) (initiator : ℕ) (path : Path) (link : ℕ) where
  -- Device ID not 0, and same initiator address, reply path and link as its claim
  abbrev pub Claimant : Type 0
  Claimant = (o.device ≢ 0) × (o.initiator ≡ initiator) × (o.path ≡ path) × (o.link ≡ link)

  -- owner means that, and nothing else
  pub is_owner_law : (is_owner o initiator path link ≡ true) ↔ Claimant
  is_owner_law = (forth, back)
    where
      a : Bool
      a = not (eqb o.device 0)

      forth : is_owner o initiator path link ≡ true → Claimant
      forth e =
          let x = (and-eq-true_iff (a && eqb o.initiator initiator && same_path o.path path) (eqb o.link link)).0 e in
          let y = (and-eq-true_iff (a && eqb o.initiator initiator) (same_path o.path path)).0 x.0 in
          let z = (and-eq-true_iff a (eqb o.initiator initiator)).0 y.0 in (
            eqb-false o.device 0 (not-true (eqb o.device 0) z.0),
            eqb-true o.initiator initiator z.1,
            same_path_law o.path path y.1,
            eqb-true o.link link x.1,
          )

      back : Claimant → is_owner o initiator path link ≡ true
      back h = rw (ne_eqb o.device 0 h.0, eq-eqb o.initiator initiator h.1, h.2, path_same path, eq-eqb o.link link h.3)

  -- a swap unequal to expected: nothing changes
  pub swap_unequal : (new expected : ℕ) → o.device ≢ expected → swapped o new expected initiator path link ≡ o
  unfolding swapped
  swap_unequal new expected d = rw (ne_eqb o.device expected d)

  -- 0 to 0 changes nothing
  pub swap_none : o.device ≡ 0 → swapped o 0 0 initiator path link ≡ o
  unfolding swapped
  swap_none e = rw (eq-eqb o.device 0 e)

  -- 0 to non-zero claims: the sender's initiator address, reply path and link are kept
  pub swap_claims : (new : ℕ) → o.device ≡ 0 → new ≢ 0
      → swapped o new 0 initiator path link ≡ record { device = new; initiator = initiator; path = path; link = link }
  unfolding swapped
  swap_claims new e n = rw (eq-eqb o.device 0 e, ne_eqb new 0 n)

  -- non-zero to 0 releases and clears the owner: no address, no path, no link
  pub swap_releases : o.device ≢ 0
      → swapped o 0 o.device initiator path link ≡ record { device = 0; initiator = 0; path = record { bytes = replicate 12 0; count = 0 }; link = 0 }
  unfolding swapped path_of
  swap_releases d = rw (eq-eqb o.device o.device refl, ne_eqb o.device 0 d)

  -- non-zero to non-zero keeps the owner
  pub swap_keeps : (new : ℕ) → o.device ≢ 0 → new ≢ 0
      → swapped o new o.device initiator path link ≡ record { device = new; initiator = o.initiator; path = o.path; link = o.link }
  unfolding swapped
  swap_keeps new d n = rw (eq-eqb o.device o.device refl, ne_eqb o.device 0 d, ne_eqb new 0 n)
