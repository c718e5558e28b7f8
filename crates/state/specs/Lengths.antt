-- The lengths of lent columns, which their arrays have; a list by itself does not say so.
use Rattle.std.specs.Prelude.{◌≡◌, List, ℕ, length}

pub record Lengths (routeids dests protected faultids responses latching argcounts args : List ℕ) : Type 0 where
  pub routeids_128 : length routeids ≡ 128
  pub dests_128 : length dests ≡ 128
  pub protected_32 : length protected ≡ 32
  pub faultids_32 : length faultids ≡ 32
  pub responses_32 : length responses ≡ 32
  pub latching_32 : length latching ≡ 32
  pub argcounts_32 : length argcounts ≡ 32
  pub args_512 : length args ≡ 512
