-- Each demand, with its proof.
use Rattle.renaming.specs.Demands.{Demands}
use Rattle.renaming.proofs.Images.{image_members, image_apart, way_back}
use Rattle.renaming.proofs.Keeping.{keeping, keeping_all, stays_proper}

pub demands : Demands
demands =
    record {
      image_members = image_members;
      image_apart = image_apart;
      way_back = way_back;
      keeping = keeping;
      keeping_all = keeping_all;
      stays_proper = stays_proper;
    }
