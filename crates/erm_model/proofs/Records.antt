-- Records of transactions: which arrays of rows fit them, and that they are lawful where the transaction is.
use Rattle.std.proofs.Common.{◌≡◌, ℕ, zero, suc, List, [], ◌∷◌, map, refl, ap, subst, arith}
use Rattle.std.specs.Prelude.{◌↔◌}
use Rattle.erm_model.specs.declared.history.TransactionRecord.{TransactionRecord}
use Rattle.erm_model.specs.declared.history.VersionRead.{VersionRead}
use Rattle.erm_model.specs.declared.history.VersionWritten.{VersionWritten}
use Rattle.erm_model.specs.Lawful.{Fits, IsLawfulRecord, AgreesWithRecord, FitsAs}
use Rattle.erm_model.specs.Member.{◌∈◌}
use Rattle.erm_model.specs.RowTransaction.{Law, Face, IsLawful}
use Rattle.erm_model.specs.Rows.{Rows}

module _ {X Y : Type 0} (f : X → Y) where
  -- what stands in a list stands in the list of the images
  pub ∈-map : (xs : List X) (x : X) → x ∈ xs → f x ∈ map f xs
  ∈-map [] x (k, is) = absurd (cc)
  ∈-map (y ∷ xs) x (zero, is) = (zero, cc)
  ∈-map (y ∷ xs) x (suc k, is) = let (j, there) = ∈-map xs x (k, is) in (suc j, there)

  -- and what stands there is an image of something in the list
  pub ∈-map_back : (xs : List X) (y : Y) → y ∈ map f xs → (x : X) × (x ∈ xs) × (f x ≡ y)
  ∈-map_back [] y (k, is) = absurd (cc)
  ∈-map_back (x ∷ xs) y (zero, is) = (x, (zero, refl), cc)
  ∈-map_back (x ∷ xs) y (suc k, is) = let (z, there, same) = ∈-map_back xs y (k, is) in (z, (suc there.0, there.1), same)

-- an array fits a record just where it meets the law and agrees with the record's lists
pub Fits-agrees : (law : Law) (t : TransactionRecord) (rows : Rows) → Fits law t rows ↔ AgreesWithRecord law t rows
Fits-agrees law t rows =
    let read : VersionRead → ℕ × List ℕ = λ (r : VersionRead). (r.oid, r.row) in
    let found : VersionWritten → ℕ × List ℕ = λ (w : VersionWritten). (w.oid, w.base) in (
      λ fits. (
        fits.meets,
        record {
          reads = λ r there. let (v, stands, is) = ∈-map_back read t.reads r there in subst (λ (p : ℕ × List ℕ). rows p.0 ≡ p.1) is (fits.reads v stands);
          claims = λ w there. let (v, stands, is) = ∈-map_back found t.writes w there in subst (λ (p : ℕ × List ℕ). rows p.0 ≡ p.1) is (fits.claims v stands);
          unreached = fits.unreached;
        },
      ),
      λ agrees. record {
        meets = agrees.0;
        reads = λ r there. agrees.1.reads (read r) (∈-map read t.reads r there);
        claims = λ w there. agrees.1.claims (found w) (∈-map found t.writes w there);
        unreached = agrees.1.unreached;
      },
    )

-- the record of a lawful transaction is lawful
pub IsLawfulRecord-told : {S : Type 0} (face : Face S) (s : S) (t : TransactionRecord) → FitsAs face s t → IsLawful face s → IsLawfulRecord face.law t
IsLawfulRecord-told face s t told lawful = record {
  meets = λ rows fits.
      let begun = (told.fits rows fits.meets).1 fits in
      subst face.law.meets (told.rows rows fits.meets begun) (lawful rows fits.meets begun).0;
  reach = λ rows x fits.
      let begun = (told.fits rows fits.meets).1 fits in
      omega (
        arith,
        (lawful rows fits.meets begun).1 x,
        ap (λ (seen : Rows). face.law.reach seen x) (told.rows rows fits.meets begun),
        told.made x,
      );
}
