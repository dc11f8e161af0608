-- Refusal 9: what the check of config bytes says.
use Prim.Native.Nat.{ℕ, ◌<◌, ◌≤◌}
use mathlib.Core.Bool.{true, false, ◌&&◌}
use mathlib.Core.Logic.{◌⊎◌, inl, inr, ⊎_elim}
use mathlib.Core.Path.{◌≡◌, refl, ap}
use native.Mathlib.Omega.{arith}
use borrow.Author.Tests.{leb-true, ltb-true, ne_eqb, lt-leb, not-false}
use lib.Dec.{leb, ltb}
use Rattle.std.proofs.Common.{Option, Some, None, is_none}
use Rattle.address.specs.Layout.{cache_line_size, latency_timer, interrupt_line, standard_header_end}
use Rattle.word.specs.Search.{any_below}
use Rattle.word.proofs.Tests.{below_or_not, both, and_left, and_right, or_cases}
use Rattle.word.proofs.Searches.{First, any_never, first_is, first_none, found_first, none_never}
use Rattle.capability.specs.Mode.{holder_of}
use Rattle.capability.specs.declared.placed.Placed.{Placed}
use Rattle.config.specs.ConfigByte.{byte_count, byte_offset, header_byte, byte_ok, byte_bad, bad, byte_check_of}
use Rattle.std.proofs.Common.{Ok}
use Rattle.config.specs.declared.config_byte.BadConfigByte.{BadConfigByte}
use Rattle.config.specs.declared.function.Contents.{Contents}

nobody_is : (h : Option ℕ) → is_none h ≡ true → h ≡ None
nobody_is None e = refl
nobody_is (Some i) e = absurd (both e refl)

-- a place from 0x40 on that no capability holds
pub record Outside (space : ℕ) (p : Placed) (o : ℕ) : Type 0 where
  pub from : standard_header_end ≤ o
  pub to : o < space
  pub free : holder_of p o ≡ None

-- the three places lie in the header
pub header_bytes : (o : ℕ) {A : Type 0} → header_byte o ≡ true → standard_header_end ≤ o → A
header_bytes o e h =
    absurd (both e (rw (ne_eqb o cache_line_size (λ q. omega arith), ne_eqb o latency_timer (λ q. omega arith), ne_eqb o interrupt_line (λ q. omega arith))))

bad_one : (a b : ℕ) → bad a ≡ bad b → a ≡ b
bad_one a b e = let q : ◌≡◌ {A = BadConfigByte} (record { 0 = a }) (record { 0 = b }) = cc in ap (λ (x : BadConfigByte). x.0) q

bad_good : (a : ℕ) → bad a ≡ Ok tt → ⊥
bad_good a e = cc

module _ (space : ℕ) (p : Placed) (o : ℕ) where
  -- where a config byte may stand, and nowhere else
  pub ok_cases : byte_ok space p o ≡ true → (header_byte o ≡ true) ⊎ Outside space p o
  unfolding byte_ok
  ok_cases e =
      ⊎_elim (λ (h : header_byte o ≡ true). inl h)
      (λ (h : leb standard_header_end o && (ltb o space && is_none (holder_of p o)) ≡ true).
      let r = and_right (leb standard_header_end o) (ltb o space && is_none (holder_of p o)) h in
      inr (record { from = leb-true standard_header_end o (and_left (leb standard_header_end o) (ltb o space && is_none (holder_of p o)) h); to = ltb-true o space (and_left (ltb o space) (is_none (holder_of p o)) r); free = nobody_is (holder_of p o) (and_right (ltb o space) (is_none (holder_of p o)) r) }))
      (or_cases (header_byte o) (leb standard_header_end o && (ltb o space && is_none (holder_of p o))) e)

  pub ok_below : standard_header_end ≤ space → byte_ok space p o ≡ true → o < space
  ok_below s e =
      ⊎_elim (λ (h : header_byte o ≡ true). ⊎_elim (λ (l : o < standard_header_end). omega arith) (λ (l : standard_header_end ≤ o). header_bytes o h l) (below_or_not o standard_header_end))
      (λ (h : Outside space p o). h.to)
      (ok_cases e)

  -- no config byte may stand in the header but at three places
  pub header_not_ok : o < standard_header_end → (o ≡ cache_line_size → ⊥) → (o ≡ latency_timer → ⊥) → (o ≡ interrupt_line → ⊥) → byte_ok space p o ≡ false
  unfolding byte_ok
  header_not_ok h a b c = rw (ne_eqb o cache_line_size a, ne_eqb o latency_timer b, ne_eqb o interrupt_line c, lt-leb standard_header_end o h)

module _ (space : ℕ) (f : Contents) (p : Placed) where
  -- the search's two ends
  pub check_bad : (i : ℕ) → i < byte_count f → any_below (byte_bad space f p) i ≡ false → byte_bad space f p i ≡ true → byte_check_of space f p ≡ bad i
  unfolding byte_check_of
  check_bad i h b e = first_is bad (Ok tt) (byte_bad space f p) (byte_count f) i (record { below = h; before = any_never (byte_bad space f p) i b; here = e })

  pub check_good : any_below (byte_bad space f p) (byte_count f) ≡ false → byte_check_of space f p ≡ Ok tt
  unfolding byte_check_of
  check_good h = first_none bad (Ok tt) (byte_bad space f p) (byte_count f) (any_never (byte_bad space f p) (byte_count f) h)

  -- a good answer: every config byte stands where it may
  pub good_each : byte_check_of space f p ≡ Ok tt → (i : ℕ) → i < byte_count f → byte_ok space p (byte_offset f i) ≡ true
  unfolding byte_check_of
  good_each e i h = not-false (byte_ok space p (byte_offset f i)) (none_never bad (Ok tt) bad_one bad_good (byte_bad space f p) (byte_count f) e i h)

  -- a bad one: the first that does not
  pub bad_first : (i : ℕ) → byte_check_of space f p ≡ bad i → First (byte_bad space f p) (byte_count f) i
  unfolding byte_check_of
  bad_first i e = found_first bad (Ok tt) bad_one bad_good (byte_bad space f p) (byte_count f) i e
